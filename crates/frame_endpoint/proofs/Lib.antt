pub mod Others
pub mod Receptions
pub mod Outgoing
pub mod Fitting
pub mod Digesting
