pub mod Status
pub mod Reply
pub mod Sequential
pub mod Totals
pub mod Sums
