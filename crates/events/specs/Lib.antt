pub mod Checking
pub mod Codes
pub mod ConfigView
pub mod EntryView
pub mod Outputs
