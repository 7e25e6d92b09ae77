pub mod Rising
pub mod Steps
pub mod Joining
pub mod Batching
