pub mod KeyHeaders
pub mod Reaching
pub mod Covering
