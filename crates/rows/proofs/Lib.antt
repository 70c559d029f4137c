pub mod Integers
pub mod Group
pub mod Order
pub mod Multiples
pub mod Lawful
pub mod Places
