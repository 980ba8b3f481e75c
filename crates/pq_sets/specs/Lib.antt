pub mod PqSetsView
pub mod Places
pub mod Recording
