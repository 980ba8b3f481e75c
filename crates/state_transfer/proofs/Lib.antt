pub mod Determining
pub mod Finding
pub mod Seeking
pub mod Starting
