pub mod Judged
pub mod Reading
pub mod StepView
pub mod Steps
pub mod Words
