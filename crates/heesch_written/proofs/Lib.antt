pub mod Distances
pub mod Shapes
pub mod Levels
pub mod Coronas
pub mod Holes
pub mod Classes
pub mod Lists
pub mod Proven
mod Covers
pub mod Searches
mod Written
pub mod EntryLines
