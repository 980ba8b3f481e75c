pub mod Timers
pub mod Clients
pub mod Serving
pub mod Endings
pub mod Faults
pub mod Texts
