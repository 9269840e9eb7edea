pub mod Following
pub mod Unique
pub mod Passing
pub mod Words
