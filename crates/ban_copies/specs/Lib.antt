pub mod Arrays
pub mod Held
pub mod Symbols
pub mod Adding
pub mod Coming
