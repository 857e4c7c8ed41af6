pub mod Originals
pub mod Permitted
