-- A correct replica.
pub mod Selection
pub mod Certificates
pub mod State
pub mod Transfers
pub mod RightReplica
pub mod Owed
