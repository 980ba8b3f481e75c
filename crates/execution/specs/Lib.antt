pub mod Calls
pub mod Running
pub mod Executed
pub mod Touching
pub mod Keeping
pub mod Installing
pub mod Laws
