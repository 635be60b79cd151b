pub mod Entries
pub mod Grammar
pub mod Parts
pub mod Statements
