pub mod Records
pub mod Sound
pub mod Break
pub mod Reads
pub mod inner
