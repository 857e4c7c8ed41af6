-- What the proofs rest on, and no contract cites.
pub mod Telling
pub mod Ways
