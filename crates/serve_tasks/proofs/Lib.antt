pub mod Made
pub mod Standings
pub mod Runs
pub mod Calls
pub mod Accepts
pub mod Ends
