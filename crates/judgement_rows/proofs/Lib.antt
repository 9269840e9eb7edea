pub mod Unasked
