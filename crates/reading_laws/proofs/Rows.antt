-- Worked texts: what the words of these laws say of each, by computation.
pub mod Places
pub mod Nesting
