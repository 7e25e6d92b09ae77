pub mod Handover
pub mod Journals
pub mod Passes
