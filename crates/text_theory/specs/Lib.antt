pub mod Runs
pub mod Unique
pub mod Syllables
pub mod Signs
pub mod Lengths
pub mod Messages
pub mod Named
pub mod Total
