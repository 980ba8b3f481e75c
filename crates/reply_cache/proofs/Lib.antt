pub mod Slots
pub mod Determining
pub mod Fronts
