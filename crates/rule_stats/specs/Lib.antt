pub mod Statistics
pub mod Sums
pub mod Lines
