pub mod Acts
pub mod HistoryValue
pub mod HomeIds
pub mod Histories
pub mod Records
pub mod Halves
pub mod Events
pub mod inside
