pub mod Seen
pub mod Counting
pub mod Walks
pub mod Trees
pub mod Lawful
pub mod Accepted
