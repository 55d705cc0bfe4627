pub mod Assembling
pub mod Seeking
pub mod Collecting
pub mod Continuing
pub mod Stamping
pub mod Telling
pub mod Keeping
pub mod Decoding
