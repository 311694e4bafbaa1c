pub mod Paths
pub mod Reductions
