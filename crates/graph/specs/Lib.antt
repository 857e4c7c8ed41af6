pub mod Graph
pub mod Paths
pub mod Heights
pub mod Goals
