pub mod Drills
pub mod Requests
