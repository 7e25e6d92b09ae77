pub mod LineSteps
pub mod Journal
pub mod Work
pub mod Clauses
pub mod Parts
