pub mod Placing
pub mod Spreading
pub mod Admits
pub mod Lone
pub mod Journals
pub mod Counting
pub mod Ordering
