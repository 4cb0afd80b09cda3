pub mod FewLegs
pub mod QueryAnswer
pub mod HeadLines
pub mod Going
pub mod OneLine
pub mod Unique
pub mod Apart
