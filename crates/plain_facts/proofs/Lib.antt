pub mod Counts
pub mod KeptFrames
pub mod LastMatch
