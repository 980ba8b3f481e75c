pub mod Space
pub mod System
pub mod Replica
pub mod Client
pub mod Laws
