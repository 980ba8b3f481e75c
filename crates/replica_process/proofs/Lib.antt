mod Writing
mod Outputs
mod Noticing
mod Courses
mod Running
