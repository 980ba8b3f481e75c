pub mod Faults
pub mod Serving
pub mod Endings
pub mod Texts
