pub mod Receiving
pub mod Answering
pub mod Faults
