pub mod Escapes
pub mod Paths
pub mod Labels
pub mod Metrics
pub mod Text
pub mod Walk
