pub mod Types
pub mod Given
pub mod Zeros
