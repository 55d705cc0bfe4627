pub mod Options
pub mod Formats
pub mod Commands
pub mod Ranges
pub mod Laws
