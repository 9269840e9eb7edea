pub mod Labels
pub mod RegistrableDomain
pub mod RuleLines
pub mod RuleLayout
pub mod Reading
pub mod RuleTexts
pub mod IndexLayout
