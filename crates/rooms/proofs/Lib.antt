pub mod RoomFormula
pub mod Apart
pub mod InRoom
pub mod Running
pub mod Rooms
pub mod Unique
