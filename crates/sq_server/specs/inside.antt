-- What only the bodies of this crate need: no contract that others see rests on it.
pub mod Clocks
pub mod Crews
pub mod Outcomes
pub mod Permits
pub mod Races
