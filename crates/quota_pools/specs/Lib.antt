pub mod FieldNames
pub mod Pools
pub mod Places
pub mod ReadPools
pub mod Reports
pub mod ReadReport
