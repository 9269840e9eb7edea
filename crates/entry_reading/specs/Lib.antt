pub mod Entries
pub mod Spellings
pub mod Answers
pub mod Fields
pub mod Bodies
pub mod Reading
