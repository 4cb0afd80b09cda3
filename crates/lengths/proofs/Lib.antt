pub mod Order
pub mod Rule
pub mod Induction
pub mod Rounding
pub mod Tested
pub mod Exits
pub mod Unique
pub mod Keys
