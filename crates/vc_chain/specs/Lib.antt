pub mod Beside
pub mod Parts
pub mod Recoded
pub mod Segments
