pub mod FirstPlace
pub mod LastLeft
pub mod KeyCounts
