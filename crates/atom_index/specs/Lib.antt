pub mod Numbers
pub mod Slots
pub mod SortedEntries
pub mod Lookups
