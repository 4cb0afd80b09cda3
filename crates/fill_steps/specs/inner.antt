pub mod Taken
pub mod Band
pub mod Work
pub mod Spreads
