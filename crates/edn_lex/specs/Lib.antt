pub mod Kinds
pub mod Flags
pub mod Ends
pub mod Pieces
pub mod Collections
pub mod State
pub mod Ahead
