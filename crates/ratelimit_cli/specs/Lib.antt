pub mod Made
pub mod Exits
pub mod Outside
pub mod Parts
