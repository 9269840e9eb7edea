pub mod StatusLines
pub mod Commands
pub mod Headline
pub mod Answers
pub mod Browse
