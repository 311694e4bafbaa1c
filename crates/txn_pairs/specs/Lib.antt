pub mod Statuses
pub mod Outcomes
pub mod Places
pub mod Completions
pub mod Growth
