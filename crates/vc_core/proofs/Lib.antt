pub mod BeforeMemory
pub mod JobsOfWorkersAreThere
pub mod SlotsAnswer
pub mod StepsOfACore
pub mod WrittenHoldsFit
