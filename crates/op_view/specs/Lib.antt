pub mod AtomTexts
pub mod Decoding
pub mod Spellings
pub mod Hashing
pub mod AtomLaws
pub mod Mops
pub mod Operations
