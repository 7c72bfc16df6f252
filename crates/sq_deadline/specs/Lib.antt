pub mod Deadlines
pub mod Trees
pub mod inside
