pub mod Service
pub mod Served
pub mod Running
pub mod Links
pub mod Accepting
pub mod Rounds
