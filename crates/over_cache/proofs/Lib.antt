pub mod Shown
pub mod Used
