pub mod OutcomeLaws
pub mod RoundLaws
pub mod VerdictLaws
