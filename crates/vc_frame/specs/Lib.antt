pub mod Frames
pub mod Laws
pub mod Order
pub mod Planes
