pub mod Triangle
pub mod Figures
pub mod Listing
