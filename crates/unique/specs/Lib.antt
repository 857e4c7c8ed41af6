pub mod Operations
pub mod Calls
