pub mod Framing
mod Parts
pub mod Telling
mod Putting
