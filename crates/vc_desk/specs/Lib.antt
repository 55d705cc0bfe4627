pub mod Asking
pub mod Carries
pub mod Desks
pub mod Does
pub mod Skips
pub mod Told
pub mod Workers
