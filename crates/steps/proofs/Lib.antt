pub mod Ways
pub mod Pigeon
pub mod Bound
pub mod Grid
pub mod Leads
pub mod OnMap
pub mod Headings
pub mod Stepping
