pub mod Audits
pub mod Runs
pub mod Scripts
pub mod Serves
pub mod inside
