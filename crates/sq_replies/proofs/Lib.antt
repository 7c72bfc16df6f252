pub mod AsciiLaws
pub mod TellLaws
pub mod BatchLaws
pub mod OnLiterals
