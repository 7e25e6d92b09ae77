pub mod Head
pub mod Asks
pub mod Requests
pub mod Front
pub mod Part
pub mod Printed
pub mod Steps
