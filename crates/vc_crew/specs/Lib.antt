pub mod Beside
pub mod Counts
pub mod Flowing
pub mod Ready
pub mod Rising
pub mod Sites
pub mod Together
pub mod Workers
