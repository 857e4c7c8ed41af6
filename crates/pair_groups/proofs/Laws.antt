-- What the proofs rest on, and no contract cites.
pub mod Frontier
pub mod Runs
pub mod Steps
pub mod Straights
pub mod Words
