pub mod Reading
pub mod Amounts
pub mod PolicyTexts
