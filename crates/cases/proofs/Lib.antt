-- What the checks show is so. These theorems stand here so that a must-fail edit of a definition or of a table is refused for the theorem that falls.
pub mod Rivals
pub mod Starts
pub mod Steps
pub mod Layers
pub mod Delays
pub mod Messages
pub mod Cases
pub mod Starred
pub mod Banned
pub mod WithBans
