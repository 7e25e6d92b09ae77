pub mod Clients
pub mod Fitting
pub mod Skylines
pub mod Living
pub mod Granting
pub mod Serving
