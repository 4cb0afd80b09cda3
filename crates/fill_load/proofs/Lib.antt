pub mod Kept
pub mod Fours
pub mod MapLoaded
