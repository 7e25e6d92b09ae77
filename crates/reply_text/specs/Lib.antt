pub mod Answer
pub mod Packed
pub mod Held
pub mod Shown
pub mod Texts
pub mod Short
pub mod FieldNames
pub mod ReadRequest
