pub mod Racing
pub mod Passes
pub mod Rooms
