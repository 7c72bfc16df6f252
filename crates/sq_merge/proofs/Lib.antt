pub mod WorldLaws
pub mod ScheduleLaws
pub mod StepLaws
pub mod KnownLaws
pub mod WorldStepLaws
pub mod BorrowedLaws
pub mod ProgressLaws
