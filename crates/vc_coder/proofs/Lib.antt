pub mod RestoredStaysInRange
pub mod FlatBlocksAreUniform
mod ShownIsRestored
