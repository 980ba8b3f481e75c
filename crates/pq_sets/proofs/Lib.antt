pub mod ByteOrder
pub mod Keeping
mod KeptPqSets
mod Placing
