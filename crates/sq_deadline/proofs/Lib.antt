pub mod OrderLaws
pub mod SetLaws
pub mod TreeLaws
