pub mod Both
pub mod Gains
pub mod Pauses
pub mod Turns
