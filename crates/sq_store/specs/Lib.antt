pub mod Due
pub mod Visible
pub mod SlotStores
pub mod Picked
pub mod inside
