pub mod Ensured
pub mod Leaves
pub mod Widths
pub mod Words
