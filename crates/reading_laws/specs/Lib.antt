pub mod Placed
pub mod Readings
pub mod Nesting
pub mod Parts
