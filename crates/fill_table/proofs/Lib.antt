pub mod Adds
pub mod OnWork
pub mod Shortest
pub mod WholeFill
