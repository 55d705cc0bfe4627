pub mod CallsLeftOver
pub mod EventsAndFormats
pub mod PartsSettle
pub mod QueuesAnswer
