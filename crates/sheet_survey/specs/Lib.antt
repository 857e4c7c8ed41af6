pub mod Survey
pub mod Passing
