pub mod Walks
pub mod Kept
pub mod Phenomena
pub mod Rows
