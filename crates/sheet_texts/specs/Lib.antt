pub mod Columns
pub mod Faults
pub mod Theorems
pub mod Lines
