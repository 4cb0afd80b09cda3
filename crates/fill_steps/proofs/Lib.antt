pub mod Numbers
pub mod Changed
pub mod InWork
pub mod Kept
pub mod OneOffer
pub mod OneStep
pub mod SideCells
pub mod ManySteps
