-- What only the bodies of this crate need: no contract that others see rests on it.
pub mod Due
pub mod Found
pub mod SlotStores
pub mod Visible
