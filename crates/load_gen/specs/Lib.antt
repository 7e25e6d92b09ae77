pub mod Load
pub mod Sums
pub mod Summary
