pub mod FieldNames
pub mod Actions
pub mod ReadBucketId
pub mod ReadAction
pub mod ReadEvent
pub mod EventFields
pub mod Line
