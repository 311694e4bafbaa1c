-- Worked histories: what the words of these laws say of each, by computation.
pub mod Thinning
