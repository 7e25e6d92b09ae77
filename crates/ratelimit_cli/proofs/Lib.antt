pub mod Explaining
pub mod Steps
pub mod Replaying
pub mod Pooling
pub mod Audits
mod Completing
