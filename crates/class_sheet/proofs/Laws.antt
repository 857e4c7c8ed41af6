-- What the proofs rest on, and no contract cites.
pub mod Signs
pub mod Counting
pub mod Sofar
pub mod Passing
pub mod Taking
