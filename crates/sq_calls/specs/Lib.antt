pub mod BatchValue
pub mod Batches
pub mod BodyTexts
pub mod MoveTasks
pub mod ReceivedValue
pub mod TaskHandles
