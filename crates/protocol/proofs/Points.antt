-- From states to the points of a run.
pub mod Levels
pub mod Reading
pub mod Sorting
pub mod Legality
pub mod Ordering
pub mod Running
pub mod Ran
pub mod Keeping
pub mod Invoking
pub mod Accepting
pub mod Readings
pub mod Whole
pub mod Twice
