pub mod Noting
pub mod Gathering
