pub mod Later
pub mod Pairs
pub mod Pairwise
