-- Linearizability.
pub mod Linear
