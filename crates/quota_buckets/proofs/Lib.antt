pub mod Moments
pub mod Indexing
pub mod Steps
pub mod Tabling
pub mod Advancing
pub mod Closing
pub mod Holding
pub mod Unchanged
