pub mod Puts
pub mod Fields
