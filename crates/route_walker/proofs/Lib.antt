pub mod Greedy
pub mod First
pub mod Searching
pub mod Fitting
pub mod ShortRuns
pub mod OnFloor
pub mod Stepping
pub mod Past
