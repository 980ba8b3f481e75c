mod Assembled
pub mod CarriedFrames
mod Chosen
mod Supporting
mod Deciding
mod Gaps
mod Holding
pub mod Judging
pub mod Larger
mod Mapped
pub mod Opening
mod Ranking
pub mod Sizing
mod Starting
