pub mod ShardValue
pub mod Looks
pub mod Moves
pub mod Calls
pub mod inside
