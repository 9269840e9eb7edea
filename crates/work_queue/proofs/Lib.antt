pub mod Same
pub mod AtMostOne
pub mod Apart
pub mod Taking
