pub mod Digits
pub mod FirstLines
pub mod Found
pub mod Parses
pub mod Refused
