pub mod Spells
pub mod Readings
pub mod Core
pub mod Counts
