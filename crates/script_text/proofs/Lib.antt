pub mod Plain
pub mod Reloads
mod Lines
mod UsualLine
mod LineStarts
