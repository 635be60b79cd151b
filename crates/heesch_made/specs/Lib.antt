pub mod Literals
pub mod Near
