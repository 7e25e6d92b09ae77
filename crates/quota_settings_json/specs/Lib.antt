pub mod FieldNames
pub mod ReadAttributes
pub mod ReadStrategy
pub mod ReadParts
pub mod ReadBehaviors
pub mod ReadSettings
