pub mod Kept
pub mod Shelves
