pub mod Counts
pub mod TaskSteps
