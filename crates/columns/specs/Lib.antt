pub mod Numerals
pub mod Columns
pub mod Put
pub mod Theorems
