pub mod Lent
pub mod Buffers
pub mod Lengths
pub mod Found
pub mod Decided
pub mod Kinds
pub mod Shown
