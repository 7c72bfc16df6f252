-- What only the bodies of this crate need: no contract that others see rests on it.
pub mod WorldSteps
pub mod WorldStepLaws
pub mod Progresses
pub mod Worlds
