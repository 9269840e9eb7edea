pub mod Gains
pub mod Made
pub mod Compared
pub mod Numbers
