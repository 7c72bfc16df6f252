pub mod Progresses
pub mod WorldValue
pub mod Worlds
pub mod Openings
pub mod PartsValue
pub mod WorldSteps
pub mod inside
