pub mod Consumed
pub mod Going
