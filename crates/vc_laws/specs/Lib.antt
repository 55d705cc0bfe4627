pub mod Drains
pub mod FirstFormats
pub mod Following
pub mod SegmentRows
pub mod Segments
pub mod Taking
