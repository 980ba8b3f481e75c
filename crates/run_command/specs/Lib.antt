pub mod Drilled
pub mod Judging
pub mod Results
