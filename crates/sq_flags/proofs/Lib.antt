pub mod FlagLaws
pub mod ModeLaws
