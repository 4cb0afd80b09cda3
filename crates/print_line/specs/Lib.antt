pub mod Head
pub mod LineRoom
pub mod inner
