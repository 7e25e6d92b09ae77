pub mod Puts
pub mod Walks
pub mod Numbers
pub mod Filling
pub mod Looking
pub mod Replacing
