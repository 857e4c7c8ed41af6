pub mod Messages
pub mod Passes
