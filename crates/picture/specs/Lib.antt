pub mod Escaping
pub mod Faults
pub mod Lanes
pub mod Pictures
