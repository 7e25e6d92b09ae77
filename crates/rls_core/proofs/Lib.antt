pub mod Ends
pub mod Ordered
