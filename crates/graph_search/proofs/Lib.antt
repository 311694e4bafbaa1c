pub mod Walks
pub mod Costs
pub mod Bounds
pub mod Marked
pub mod Reaching
pub mod Opening
pub mod Searching
pub mod WaysBack
