pub mod Answers
pub mod Ends
pub mod Framing
pub mod Passing
pub mod Replies
pub mod Requests
pub mod Serving
