pub mod Explained
pub mod Growing
