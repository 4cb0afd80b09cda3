pub mod Lists
pub mod Writing
pub mod Neighbours
pub mod Best
pub mod Packing
pub mod Judging
pub mod OneTable
