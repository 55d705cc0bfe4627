pub mod Buffers
pub mod Calls
pub mod Faults
pub mod Inputs
