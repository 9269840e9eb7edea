pub mod SiteCounts
pub mod Numbers
pub mod OwnNumbers
pub mod Changing
pub mod Deaths
