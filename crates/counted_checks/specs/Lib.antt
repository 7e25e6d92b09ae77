pub mod Counting
pub mod Text
pub mod AtEnd
pub mod Made
