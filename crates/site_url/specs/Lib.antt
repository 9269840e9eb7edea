pub mod Addresses
pub mod Sites
