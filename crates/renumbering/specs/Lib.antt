pub mod Sums
pub mod Renumberings
pub mod Reordering
pub mod Listing
pub mod Origins
