pub mod Hits
pub mod Places
pub mod Adding
pub mod Merging
