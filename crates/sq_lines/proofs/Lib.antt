pub mod LineLaws
pub mod WriteLaws
pub mod ReplyLaws
