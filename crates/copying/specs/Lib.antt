pub mod Runs
pub mod Copies
