pub mod Rooms
pub mod Kinds
pub mod Records
pub mod Outputs
