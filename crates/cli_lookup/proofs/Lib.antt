pub mod Founds
