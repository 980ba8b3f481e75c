-- The system: its parties, their messages, traces and runs.
pub mod Configuration
pub mod Frames
pub mod Trace
pub mod Texts
pub mod Run
pub mod Schedule
pub mod Reads
