pub mod FieldNames
pub mod Script
pub mod Views
pub mod LineAnswers
pub mod Pointers
pub mod Usual
pub mod LineStarts
