pub mod Crossing
pub mod Noting
pub mod Closing
pub mod Leading
pub mod Telling
pub mod Parts
