pub mod BlockLaws
pub mod EventLaws
