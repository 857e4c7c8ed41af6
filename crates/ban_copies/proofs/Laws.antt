-- What the proofs rest on, and no contract cites.
pub mod Filling
pub mod Answers
pub mod Scanning
