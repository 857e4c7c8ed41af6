pub mod AtMost
pub mod Accepts
pub mod Given
pub mod Print
pub mod Written
pub mod Round
