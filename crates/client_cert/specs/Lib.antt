pub mod Asking
pub mod Fits
pub mod Receiving
pub mod State
pub mod Steps
pub mod TurnView
