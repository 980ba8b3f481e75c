pub mod Batching
pub mod Leveling
pub mod Numbering
pub mod Places
pub mod PointView
pub mod Running
pub mod Scanning
pub mod Sorting
