pub mod Answers
pub mod Order
pub mod Served
pub mod Printing
pub mod Steps
pub mod ServeLines
