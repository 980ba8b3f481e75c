pub mod Configuring
pub mod Faults
pub mod Files
pub mod Folders
