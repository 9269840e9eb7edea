pub mod FieldText
pub mod Texts
pub mod MediaType
pub mod Kinds
pub mod Nosniff
pub mod JoinedValues
pub mod ResourcePolicies
