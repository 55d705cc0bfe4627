pub mod Contents
pub mod Jobs
pub mod Laws
pub mod Slots
pub mod Steps
