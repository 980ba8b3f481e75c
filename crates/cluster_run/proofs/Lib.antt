mod Answering
mod CalledSends
mod Ending
mod Joining
mod Taking
mod Turns
