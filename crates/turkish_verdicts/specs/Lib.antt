pub mod Cases
pub mod Answered
pub mod Words
