pub mod LedgerHistory
pub mod LedgerHistories
pub mod TaskIndexes
pub mod Events
pub mod inside
