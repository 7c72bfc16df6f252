-- What only the bodies of this crate need: no contract that others see rests on it.
pub mod Replies
pub mod Capacities
