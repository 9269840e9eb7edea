pub mod Candidates
pub mod Objects
pub mod Outcomes
pub mod Kept
pub mod Readiness
pub mod TaskData
