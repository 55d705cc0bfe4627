pub mod Jobs
pub mod Rings
