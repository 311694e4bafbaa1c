pub mod Rows
pub mod Titles
pub mod Equality
pub mod AtomOrder
pub mod Members
pub mod Pieces
