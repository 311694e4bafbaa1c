pub mod Tables
pub mod Board
pub mod Graphs
pub mod Analysed
pub mod KeyPieces
pub mod Staying
