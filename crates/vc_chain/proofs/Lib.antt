pub mod PartsOfResults
pub mod PicturesGoOver
pub mod SegmentsAddUp
pub mod SegmentsGoOn
