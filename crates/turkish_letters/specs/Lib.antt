pub mod Letters
pub mod Given
