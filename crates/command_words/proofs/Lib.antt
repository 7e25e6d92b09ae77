pub mod Apps
pub mod Numbers
