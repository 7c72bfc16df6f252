pub mod RequestLaws
pub mod CallLaws
pub mod MemberLaws
pub mod BatchLaws
pub mod EntriesLaws
