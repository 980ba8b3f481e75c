pub mod Steps
pub mod Grammar
pub mod Lengths
pub mod SpelledBytes
pub mod OperationLaws
pub mod Skipping
pub mod Putting
pub mod Several
