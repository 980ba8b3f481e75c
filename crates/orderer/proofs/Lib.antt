pub mod Flags
pub mod Staying
pub mod Parties
pub mod Voting
pub mod Again
pub mod Batches
pub mod ChangingViews
pub mod EnteringViews
