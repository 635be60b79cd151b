pub mod Covers
pub mod Branches
