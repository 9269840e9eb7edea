pub mod Keys
pub mod Work
pub mod Claims
