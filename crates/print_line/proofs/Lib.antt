pub mod Spoken
pub mod WayLine
