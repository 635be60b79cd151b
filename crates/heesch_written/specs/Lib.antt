pub mod Near
pub mod Statements
