pub mod Limits
pub mod Buffers
pub mod Counts
pub mod Device
pub mod Errnos
pub mod Events
