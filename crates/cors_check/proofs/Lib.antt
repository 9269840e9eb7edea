pub mod FirstValue
