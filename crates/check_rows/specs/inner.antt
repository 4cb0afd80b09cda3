pub mod Level
pub mod Window
