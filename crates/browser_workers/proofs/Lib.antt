pub mod Passes
pub mod Booking
pub mod Bringing
pub mod Loads
pub mod Places
pub mod Over
