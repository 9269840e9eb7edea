pub mod HistoryOf
pub mod Begun
pub mod Climbs
