pub mod Ranges
pub mod Runs
pub mod Origins
pub mod Answered
pub mod Crashes
pub mod Sayings
