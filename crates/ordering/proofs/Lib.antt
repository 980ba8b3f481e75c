pub mod Counting
pub mod Faults
pub mod Keeping
pub mod Moving
pub mod Placing
pub mod Reading
pub mod Viewing
pub mod Voting
