pub mod Candidates
pub mod Orderly
pub mod Cores
pub mod Applying
pub mod Claiming
pub mod Handing
pub mod Walking
pub mod Hosts
