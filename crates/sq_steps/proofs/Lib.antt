pub mod JournalLaws
pub mod JournalListLaws
pub mod DistinctLaws
pub mod DropLaws
pub mod FilterLaws
pub mod RecordLaws
pub mod SharedLaws
pub mod TaskLeaveLaws
