pub mod CallsAreHonest
pub mod CallsHandOut
pub mod HeldIsThere
pub mod TakenIsHandedOut
pub mod WaitingIsOneCall
