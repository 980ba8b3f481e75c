pub mod Applied
pub mod Held
pub mod Paged
pub mod Refusals
pub mod Running
pub mod Written
