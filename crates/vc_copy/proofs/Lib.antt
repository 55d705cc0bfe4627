pub mod BeforeMemory
pub mod ClaimsTakeTheFront
pub mod CopierAnswers
pub mod EndsOfCopies
pub mod JobsLeaveTheHold
pub mod NeedsNoMemory
pub mod QueuesCountUp
pub mod TakenPayloads
