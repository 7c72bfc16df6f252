-- What only the bodies of this crate need: no contract that others see rests on it.
pub mod Calls
pub mod Messages
pub mod StopLaws
pub mod Stops
