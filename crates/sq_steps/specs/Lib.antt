pub mod Records
pub mod Journals
pub mod SharedSteps
pub mod TaskActs
pub mod Reads
pub mod inside
