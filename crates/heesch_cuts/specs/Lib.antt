pub mod Chosen
pub mod Marks
pub mod Enclosing
pub mod Patches
pub mod Parts
