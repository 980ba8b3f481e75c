pub mod Dealing
pub mod Judging
pub mod KeysView
pub mod Laws
pub mod Names
pub mod PartyData
pub mod Reading
pub mod Text
