pub mod Chains
pub mod Cors
