pub mod BlocksValue
pub mod Spares
pub mod LogValue
pub mod Logs
pub mod Events
pub mod inside
