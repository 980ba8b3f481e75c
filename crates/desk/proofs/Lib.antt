pub mod Newest
pub mod KeptStates
pub mod Listing
pub mod WaitingKept
pub mod AssignedCalls
pub mod SameBodies
pub mod Running
pub mod ReadsAnswered
