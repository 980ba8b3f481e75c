-- From votes to one state for each number.
pub mod Voting
pub mod Marks
pub mod Checkpoints
pub mod Offers
pub mod Agreeing
pub mod Signed
pub mod Commits
pub mod Changes
pub mod Settling
pub mod Staying
pub mod Executing
pub mod Firsts
pub mod States
pub mod Uniting
pub mod Asking
pub mod Beginning
