pub mod Steps
pub mod Turned
pub mod Symmetries
pub mod Found
pub mod Statements
