pub mod Filling
pub mod Records
