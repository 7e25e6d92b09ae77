pub mod Rising
pub mod Intervals
