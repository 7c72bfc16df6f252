pub mod DigestLaws
pub mod TaskHandleLaws
