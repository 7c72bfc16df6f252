pub mod Few
pub mod LookLaws
pub mod MoveLaws
