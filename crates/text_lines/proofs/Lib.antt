pub mod Cutting
mod Finding
