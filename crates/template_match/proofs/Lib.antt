pub mod Deciding
mod Stripping
mod Walking
mod TwoWalking
mod BothWalks
mod Fronts
