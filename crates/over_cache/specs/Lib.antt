pub mod Entries
pub mod Uses
pub mod Hashed
