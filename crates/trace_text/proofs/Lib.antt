pub mod Appended
pub mod Chained
pub mod Joined
pub mod Said
