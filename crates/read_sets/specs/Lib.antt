pub mod Sets
pub mod Words
pub mod Rows
pub mod Laid
