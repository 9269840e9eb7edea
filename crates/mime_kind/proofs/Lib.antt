pub mod FirstMark
pub mod FirstMember
pub mod Joining
