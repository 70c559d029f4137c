pub mod Allowed
pub mod Tables
pub mod Layers
pub mod ShortStays
pub mod Grids
pub mod Edits
