-- What a history means: begin here.
pub mod Operations
pub mod Journal
pub mod Transactions
pub mod Versions
pub mod Edges
pub mod Phenomena
pub mod Witness
pub mod ThinnedOrder
pub mod Explanation
-- What is reported and printed.
pub mod Reports
pub mod Refusals
pub mod CanonicalText
pub mod EdgeOrder
pub mod Texts
-- How a text is read.
pub mod Bytes
pub mod Tokens
pub mod Atoms
pub mod AtomTokens
pub mod Forms
pub mod Entries
pub mod Reading
-- What a live journal answers, and what happens where many call it at once.
pub mod Handed
pub mod LegalAnswers
pub mod Interleavings
-- What a client of a live journal writes, line by line, and what it reads in reply.
pub mod Sessions
-- Where bytes come from and go to.
pub mod Devices
pub mod Pieces
-- Words of no subject of their own.
pub mod Lists
-- How the logic stores these data, for the types of code that contracts see as such data.
pub mod Stored
