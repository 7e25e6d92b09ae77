pub mod Pairs
pub mod Laws
pub mod Hashes
pub mod Parts
pub mod Covering
