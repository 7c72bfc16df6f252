pub mod IndexLaws
pub mod StateLaws
pub mod MessageStateLaws
pub mod FollowLaws
pub mod ListLaws
pub mod AuditLaws
