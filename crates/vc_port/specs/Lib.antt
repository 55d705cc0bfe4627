pub mod Laws
pub mod Ports
pub mod Payloads
pub mod Stations
