pub mod Matches
pub mod Tests
pub mod Walks
