pub mod Predecessors
pub mod Ranges
pub mod Completions
pub mod Events
pub mod Summaries
pub mod Pairs
pub mod Latest
pub mod Thinnings
