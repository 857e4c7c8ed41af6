pub mod Image
pub mod Blocks
pub mod Packing
pub mod RoundTrip
