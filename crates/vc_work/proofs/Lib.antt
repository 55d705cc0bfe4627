pub mod AreasHoldPictures
pub mod Streams
