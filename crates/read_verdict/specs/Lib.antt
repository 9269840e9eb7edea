pub mod Cases
pub mod Rulings
pub mod ClearedData
pub mod HasJudged
