pub mod Floor
pub mod Lent
pub mod Refusals
pub mod Tests
pub mod Answers
pub mod inner
