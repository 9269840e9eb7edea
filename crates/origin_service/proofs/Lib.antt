pub mod Origins
pub mod KeyChanges
pub mod Holding
pub mod Placing
