pub mod Endpoint
pub mod Faults
pub mod Frames
pub mod Replies
