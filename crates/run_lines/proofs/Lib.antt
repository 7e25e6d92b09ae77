pub mod Shorts
pub mod Weaving
