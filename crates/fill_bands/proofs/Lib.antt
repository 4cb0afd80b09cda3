pub mod Kept
pub mod Parting
pub mod OnePass
pub mod Onward
pub mod FirstBand
pub mod SomeCell
pub mod NextBand
pub mod LastBand
