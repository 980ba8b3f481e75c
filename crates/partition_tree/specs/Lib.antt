pub mod Changes
pub mod Digests
pub mod Levels
pub mod Owners
pub mod Parts
pub mod Texts
