pub mod Services
pub mod Events
pub mod Placing
pub mod Working
pub mod Taking
pub mod Lists
