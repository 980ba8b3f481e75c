pub mod Answers
pub mod Faults
pub mod Hands
pub mod Threads
pub mod Room
