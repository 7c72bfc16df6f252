pub mod RowLaws
pub mod SlotLaws
pub mod ReplayLaws
pub mod EqualLaws
pub mod ElementLaws
