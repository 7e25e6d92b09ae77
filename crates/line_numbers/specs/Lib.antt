pub mod Rising
pub mod Rule
pub mod Drawers
pub mod Within
pub mod Batches
pub mod Joins
