-- What only the bodies of this crate need: no contract that others see rests on it.
pub mod AllPlaces
pub mod Audits
pub mod HomeValues
pub mod MessagePasses
pub mod RowIndexes
pub mod RowStates
