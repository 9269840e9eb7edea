pub mod Claimed
pub mod Stands
pub mod Steps
pub mod Laws
