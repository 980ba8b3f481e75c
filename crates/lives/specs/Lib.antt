pub mod Events
pub mod Lasts
pub mod Lives
pub mod Repeats
pub mod Steps
