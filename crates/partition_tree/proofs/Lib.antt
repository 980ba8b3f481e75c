pub mod Changing
pub mod Holding
pub mod Parting
pub mod Renewing
pub mod Standing
