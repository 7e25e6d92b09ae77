pub mod Lists
pub mod Rule
pub mod Tokens
pub mod Joins
