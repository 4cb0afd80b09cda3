pub mod Route
pub mod Legs
pub mod inner
