pub mod ActionLimits
pub mod ResourceData
pub mod Pieces
pub mod CutPlaces
pub mod ScriptData
pub mod Verdicts
