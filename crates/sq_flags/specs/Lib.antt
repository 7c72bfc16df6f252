pub mod CommandLine
pub mod Flags
pub mod Values
