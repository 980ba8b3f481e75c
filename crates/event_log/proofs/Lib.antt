pub mod Appending
pub mod Counting
pub mod Finds
pub mod Framing
pub mod Logs
pub mod Making
pub mod ReadingOn
pub mod Stands
