pub mod Durations
pub mod Sizes
pub mod Lawful
pub mod Keyed
mod Growing
