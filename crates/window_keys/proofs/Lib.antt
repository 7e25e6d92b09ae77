pub mod Counters
mod Keys
