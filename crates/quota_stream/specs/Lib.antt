pub mod Texts
pub mod Outcomes
pub mod Output
pub mod Tasks
pub mod Runs
pub mod Replays
pub mod Progress
