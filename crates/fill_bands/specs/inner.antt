pub mod Pass
pub mod Solved
