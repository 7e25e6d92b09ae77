pub mod Quota
pub mod Allowances
pub mod Replayed
pub mod Pooled
pub mod Parts
