pub mod Places
pub mod Shortening
pub mod Joining
pub mod Needed
pub mod Tightening
pub mod Fewer
