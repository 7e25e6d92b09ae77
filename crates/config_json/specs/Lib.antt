pub mod FieldNames
pub mod Rules
pub mod Views
pub mod Trees
pub mod Reading
pub mod Printed
pub mod Put
pub mod Bounds
