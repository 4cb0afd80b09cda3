pub mod Tables
pub mod Runs
pub mod Computed
pub mod Starred
