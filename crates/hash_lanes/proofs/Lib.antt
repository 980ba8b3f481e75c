pub mod Bits
pub mod Finishing
pub mod Grouping
pub mod Rotating
pub mod Scheduling
pub mod Stepping
pub mod Vectors
pub mod Writing
