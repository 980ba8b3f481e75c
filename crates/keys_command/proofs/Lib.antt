pub mod Filed
pub mod Refusals
