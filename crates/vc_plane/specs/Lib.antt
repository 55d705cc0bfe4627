pub mod Samples
pub mod Entries
pub mod Reading
pub mod Writing
