mod Changed
mod Spans
mod Gathered
mod Finished
pub mod KeyNumbers
mod Places
mod NilNumbers
mod Numbered
mod Spelled
mod Growing
mod Accessing
mod Lists
mod Unnamed
mod Known
pub mod Joined
mod Followed
mod Told
mod Given
mod Journaled
mod WriteNumbers
pub mod Callers
mod ByPlace
mod Pairs
mod LastSeen
mod Seen
mod Taken
pub mod Stepping
mod Interleaved
mod Marked
mod UpTo
mod Sequenced
pub mod Keeping
