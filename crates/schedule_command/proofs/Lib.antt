pub mod Reasons
pub mod Telling
pub mod Written
pub mod Limited
