pub mod Text
pub mod Tails
pub mod Message
pub mod Steps
pub mod Begun
pub mod Marks
