pub mod Allowed
pub mod Commands
pub mod Faults
pub mod Misfits
pub mod Settings
pub mod Texts
pub mod Writing
