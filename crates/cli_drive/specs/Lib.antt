pub mod Driven
pub mod Generated
