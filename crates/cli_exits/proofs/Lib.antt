pub mod Writing
pub mod Flushing
pub mod Told
pub mod Histories
pub mod Lines
