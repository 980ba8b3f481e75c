pub mod Frames
pub mod Lines
pub mod Lists
pub mod Shown
