pub mod Answers
pub mod SameAnswers
pub mod Refuted
pub mod Judged
pub mod Tabling
pub mod Statuses
pub mod Runs
pub mod Sources
