-- What the proofs rest on, and no contract cites.
pub mod Decimals
pub mod Starts
pub mod Numbers
pub mod Lengths
pub mod Results
