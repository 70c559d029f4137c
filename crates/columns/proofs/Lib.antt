pub mod Numerals
pub mod Columns
pub mod Puts
pub mod Putting
mod Reading
