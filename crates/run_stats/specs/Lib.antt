pub mod RunStats
