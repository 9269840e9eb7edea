-- What the contracts of a load cite, in reading order.
pub mod Reads
pub mod Loads
pub mod Steps
pub mod Whole
