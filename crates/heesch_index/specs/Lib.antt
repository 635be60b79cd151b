pub mod Covering
pub mod Entries
pub mod Marking
pub mod Boxes
pub mod Parts
