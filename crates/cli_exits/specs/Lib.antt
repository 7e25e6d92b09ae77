pub mod Output
pub mod Jobs
pub mod World
pub mod Configured
pub mod Parts
pub mod Reports
