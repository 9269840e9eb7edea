pub mod BelowLemmas
pub mod ItemsLemmas
pub mod Blanks
pub mod FieldNames
pub mod HeaderLimits
pub mod CutLimits
pub mod ActionLimits
pub mod ResourceLimits
