pub mod Audits
pub mod AuditLines
pub mod Steps
