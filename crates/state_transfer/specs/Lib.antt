pub mod Determining
pub mod Differences
pub mod Keeping
pub mod Places
pub mod Seeking
pub mod Taking
pub mod Transfer
pub mod TransferView
