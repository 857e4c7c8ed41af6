-- What the proofs rest on, and no contract cites.
pub mod Printing
pub mod Rows
pub mod Lines
