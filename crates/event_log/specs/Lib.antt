pub mod Events
pub mod Finding
pub mod Groups
pub mod Logs
pub mod Standing
