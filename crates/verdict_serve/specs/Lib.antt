pub mod Alone
pub mod Cuts
pub mod Sources
pub mod Sayings
pub mod Served
pub mod Steps
pub mod Searches
pub mod Places
