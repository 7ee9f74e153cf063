pub mod Rooms
pub mod Closes
