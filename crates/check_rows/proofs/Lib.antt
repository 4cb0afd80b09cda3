pub mod CellNumbers
pub mod Offering
pub mod Deciding
pub mod InWindow
pub mod OneMore
