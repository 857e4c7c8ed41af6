-- What the proofs rest on, and no contract cites.
pub mod Judging
pub mod Taking
pub mod Either
