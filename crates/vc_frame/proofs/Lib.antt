pub mod PlanesOneByOne
pub mod RawOrdersBothWays
pub mod IFramesNeedNoReference
pub mod BodiesAreWhole
pub mod AreasArePictures
pub mod NextFrameIsEncoded
pub mod FrameOverAnArea
pub mod FramesComeBack
