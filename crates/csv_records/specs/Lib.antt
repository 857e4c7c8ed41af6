pub mod Fields
pub mod Front
pub mod Digits
pub mod Join
pub mod Sheets
pub mod Symbols
