pub mod Universes
pub mod Steps
pub mod Found
pub mod Spots
