pub mod Carrying
pub mod Codes
pub mod Comparing
pub mod Faults
pub mod Histories
pub mod Laws
pub mod Parts
pub mod Ties
