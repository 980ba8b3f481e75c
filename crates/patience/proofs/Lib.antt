mod Shortest
mod Timing
mod Lasting
