pub mod RuleText
pub mod Kinds
pub mod CarriedRules
