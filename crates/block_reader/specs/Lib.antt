pub mod Blocks
pub mod Reading
pub mod Parts
pub mod OneBlock
pub mod Starts
pub mod Windows
pub mod Rounds
