pub mod Entry
pub mod Filled
pub mod Made
pub mod inner
