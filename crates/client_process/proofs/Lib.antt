mod Outputs
mod Writing
mod Courses
mod Stepping
mod Standing
mod Leading
