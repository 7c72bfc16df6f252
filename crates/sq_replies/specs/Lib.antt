pub mod Replies
pub mod Texts
pub mod Worked
pub mod inside
