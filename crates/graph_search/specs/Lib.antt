pub mod Graphs
pub mod Visits
pub mod Costs
