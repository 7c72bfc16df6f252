pub mod LockLaws
pub mod FinishLaws
pub mod LastTaskLaws
pub mod StayLaws
pub mod PlaceLaws
pub mod AnswerLaws
