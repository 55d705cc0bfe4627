pub mod Coded
pub mod Pictures
