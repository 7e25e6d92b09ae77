pub mod Rule
pub mod Replaces
pub mod Level
pub mod Stored
pub mod Index
