pub mod Window
pub mod Counter
pub mod Key
