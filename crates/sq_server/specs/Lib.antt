pub mod Handles
pub mod Outcomes
pub mod Around
pub mod Rounds
pub mod Verdicts
pub mod inside
