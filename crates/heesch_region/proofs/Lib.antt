pub mod Rows
pub mod Places
pub mod Boxes
pub mod Marking
pub mod Strips
pub mod Listings
pub mod Holes
