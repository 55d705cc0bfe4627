pub mod NewBuffersAreZeros
pub mod QueuesCountUp
pub mod RunsAreResults
