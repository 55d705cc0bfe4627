pub mod Encoders
pub mod Works
