pub mod Datas
pub mod Saying
pub mod Laws
pub mod Printing
mod Reading
mod Making
mod Quoting
mod Taking
