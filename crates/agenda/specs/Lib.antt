pub mod Reached
pub mod Halves
