pub mod Reading
pub mod Tables
pub mod Telling
