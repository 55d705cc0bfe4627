pub mod Decoders
pub mod Ends
pub mod Parts
pub mod Works
