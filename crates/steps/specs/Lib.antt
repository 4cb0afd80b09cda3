pub mod Heading
pub mod Way
pub mod Step
pub mod inner
