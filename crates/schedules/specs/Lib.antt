pub mod Schedules
pub mod Cycles
