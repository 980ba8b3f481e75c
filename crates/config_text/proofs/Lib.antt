pub mod Keys
pub mod Listed
pub mod Once
pub mod Refusals
