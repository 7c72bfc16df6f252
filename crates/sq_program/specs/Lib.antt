pub mod Endings
pub mod Faults
pub mod Results
pub mod Streams
pub mod inside
