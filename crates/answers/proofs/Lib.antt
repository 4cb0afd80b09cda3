pub mod Bools
pub mod Refusals
pub mod Numbers
