pub mod Lanes
pub mod Midstates
pub mod Rounds
pub mod Tails
