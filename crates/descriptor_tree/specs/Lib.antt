pub mod Trees
pub mod Nodes
pub mod Faults
pub mod Config
pub mod Views
pub mod Numbering
