pub mod Lasts
pub mod Playing
pub mod Telling
