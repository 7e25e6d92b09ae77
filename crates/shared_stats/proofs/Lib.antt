pub mod Amounts
pub mod Steps
pub mod Shares
pub mod Joining
pub mod Noting
pub mod Closing
pub mod Texts
