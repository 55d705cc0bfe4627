pub mod CallsAreGranted
pub mod CallsHandOut
pub mod CloseLeavesNothing
pub mod FaultsShow
pub mod FilledIsQueued
pub mod InputsAreBounded
pub mod Results
pub mod TakenIsThere
