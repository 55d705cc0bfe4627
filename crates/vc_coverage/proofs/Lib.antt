pub mod ChainsCoverUpToAPlace
pub mod EndsOfFrames
pub mod FeedsReadOn
pub mod FindsAreReached
pub mod NothingWithoutAKeyHeader
