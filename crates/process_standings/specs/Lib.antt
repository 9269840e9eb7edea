pub mod Standings
pub mod Changing
pub mod Laws
