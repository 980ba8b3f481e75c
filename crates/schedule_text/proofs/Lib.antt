pub mod Calls
pub mod Numbers
pub mod Parties
pub mod Pieces
pub mod Skips
