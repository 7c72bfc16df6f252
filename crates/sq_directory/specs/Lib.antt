pub mod inside
pub mod DirectoryHistory
pub mod DirectoryHistories
pub mod Makers
pub mod Events
pub mod Stored
pub mod MoveQueues
pub mod Listings
