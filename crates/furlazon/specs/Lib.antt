pub mod Calls
pub mod Packs
pub mod Held
