pub mod Fields
pub mod Entries
pub mod Marks
pub mod Stores
pub mod Rooms
pub mod Cleared
