pub mod Digits
pub mod Only
pub mod Puts
pub mod Pages
pub mod Fields
pub mod Unique
pub mod Sample
