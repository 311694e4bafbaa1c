-- Worked histories and texts: what the definitions say of each, by computation. They hold the definitions to what they are
-- meant to say; near misses stand beside them.
pub mod History
pub mod Cycles
pub mod Orders
pub mod Realtime
pub mod Nodes
pub mod Reads
pub mod Versions
pub mod Refused
pub mod Order
pub mod Cutting
pub mod Texts
pub mod Printed
pub mod Absence
pub mod Fewest
pub mod Verdicts
pub mod Explanations
pub mod Handed
pub mod LegalAnswers
pub mod Interleavings
pub mod Sessions
pub mod Sequential
