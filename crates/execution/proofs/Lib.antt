pub mod Calling
pub mod Leading
pub mod Renewing
pub mod Restoring
pub mod Measuring
