pub mod Cutting
pub mod Fitting
pub mod Handles
pub mod Parcels
pub mod Runs
pub mod Texts
