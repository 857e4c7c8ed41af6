pub mod Public
pub mod Named
