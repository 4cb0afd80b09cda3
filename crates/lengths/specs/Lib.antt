pub mod Order
pub mod Distance
pub mod Answers
pub mod inner
