pub mod Histories
pub mod Labels
pub mod OutEdges
pub mod Added
pub mod Tables
pub mod Reads
pub mod Possible
pub mod Pieces
