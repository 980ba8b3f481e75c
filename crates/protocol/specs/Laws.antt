-- Laws over all histories and runs.
pub mod Histories
pub mod Runs
pub mod Bounds
pub mod Schedules
pub mod Transfers
