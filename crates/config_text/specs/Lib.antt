pub mod Judging
pub mod Keys
pub mod Reading
