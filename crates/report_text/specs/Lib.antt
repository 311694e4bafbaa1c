pub mod Lines
pub mod Leaving
