-- Canonical text reads back: lemmas.
pub mod Chunks
pub mod Runs
pub mod Strings
pub mod Lexed
pub mod Atoms
pub mod Mops
pub mod Whole
pub mod Read
pub mod Meant
pub mod Lines
pub mod Given
