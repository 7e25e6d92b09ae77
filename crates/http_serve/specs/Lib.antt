pub mod Service
pub mod Links
pub mod Accepting
pub mod Working
pub mod Merged
