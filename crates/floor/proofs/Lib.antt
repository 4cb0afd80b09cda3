pub mod Entries
pub mod Reading
pub mod Masks
pub mod Tested
pub mod Unique
