pub mod Places
pub mod Form
pub mod Proper
pub mod Begun
pub mod Writing
pub mod Lines
pub mod Listing
