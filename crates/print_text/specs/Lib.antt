pub mod Text
pub mod Put
pub mod inner
