pub mod RowLists
pub mod SplitLaws
pub mod TableLaws
