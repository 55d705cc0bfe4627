pub mod Endings
pub mod Flows
pub mod Frames
pub mod Promises
pub mod Shares
pub mod Steps
pub mod Tallies
