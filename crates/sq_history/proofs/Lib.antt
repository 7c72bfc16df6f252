pub mod HistoryLaws
pub mod HalfLaws
pub mod TaskLaws
pub mod HomeIdLaws
