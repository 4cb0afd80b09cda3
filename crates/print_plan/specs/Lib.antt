pub mod Query
pub mod Lines
pub mod Shown
pub mod inner
