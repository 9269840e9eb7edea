pub mod Asking
pub mod Booking
pub mod Growing
pub mod Passes
pub mod Kinds
pub mod Loads
pub mod Seats
