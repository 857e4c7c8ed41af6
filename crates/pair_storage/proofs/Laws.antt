-- What the proofs rest on, and no contract cites.
pub mod Laying
pub mod Bounds
