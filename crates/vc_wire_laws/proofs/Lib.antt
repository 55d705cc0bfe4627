pub mod CodecRunsAreShort
pub mod EncodersKeepTheirSizes
pub mod FramesAreShort
pub mod PicturesAreShort
