pub mod Bits
pub mod Sums
pub mod Nodes
pub mod Listing
pub mod Partial
pub mod Steps
pub mod Whole
