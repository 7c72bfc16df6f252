pub mod DigitLaws
pub mod ArnLaws
pub mod SourceLaws
pub mod PolicyLaws
