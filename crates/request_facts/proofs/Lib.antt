pub mod LastUrl
pub mod Steps
pub mod Posts
pub mod ReadSoFar
