pub mod ItemLaws
pub mod LedgerLaws
pub mod TaskLaws
pub mod TaskCallLaws
