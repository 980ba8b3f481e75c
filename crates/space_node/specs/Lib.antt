pub mod Calls
pub mod Codes
pub mod Drills
pub mod Faults
pub mod Places
pub mod Runs
pub mod PartyStates
