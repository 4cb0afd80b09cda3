pub mod AtMost
pub mod Keys
