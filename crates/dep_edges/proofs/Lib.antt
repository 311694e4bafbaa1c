pub mod Lists
pub mod Places
pub mod Apart
mod Steps
pub mod Out
pub mod Writers
pub mod Found
pub mod Marks
pub mod Adding
pub mod Shown
pub mod Ruled
