pub mod Standings
pub mod Moments
pub mod PatienceView
pub mod Laws
pub mod Stands
