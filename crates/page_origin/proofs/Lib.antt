pub mod PageUrlLemmas
pub mod HostLemmas
pub mod Spellings
