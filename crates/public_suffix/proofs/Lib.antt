pub mod LabelStart
pub mod FirstLabel
pub mod Words
pub mod ReadingLemmas
pub mod IndexLemmas
pub mod Walk
pub mod Fits
pub mod Steps
