pub mod Plain
pub mod Taking
pub mod Written
