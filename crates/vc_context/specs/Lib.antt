pub mod Contexts
pub mod Laws
pub mod Payloads
pub mod Serving
pub mod Works
