pub mod Parts
pub mod Replays
pub mod Verdicts
