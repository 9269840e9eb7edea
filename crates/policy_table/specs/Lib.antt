pub mod Histories
pub mod Changes
pub mod Known
pub mod TableRule
pub mod Views
pub mod Steps
