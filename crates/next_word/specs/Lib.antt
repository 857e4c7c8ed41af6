pub mod Prefixes
pub mod Picked
pub mod Told
pub mod Named
