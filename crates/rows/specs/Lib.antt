pub mod Rows
pub mod Kinds
pub mod Orders
pub mod Theorems
