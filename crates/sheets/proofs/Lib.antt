pub mod Sums
pub mod Writing
pub mod Lengths
pub mod Taken
pub mod Held
mod Calls
pub mod Whole
mod Progress
