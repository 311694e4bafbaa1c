pub mod Steps
pub mod Levels
pub mod Integers
pub mod OutlineLemmas
pub mod Gathering
pub mod Closing
pub mod Collected
pub mod ByMember
pub mod MicroOps
pub mod MapMembers
pub mod LevelSteps
pub mod MarksKept
pub mod LastMark
pub mod LeftOut
pub mod PassedOver
pub mod Places
pub mod Reached
pub mod Triples
pub mod FlatForms
pub mod FlatMaps
pub mod MopFronts
pub mod PrintedFields
pub mod FlatPlaces
pub mod ReadsBack
pub mod Tokens
pub mod KindsByFront
mod Decimals
mod StringSources
mod ValueFronts
mod Appended
mod MopTexts
