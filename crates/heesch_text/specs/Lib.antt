pub mod Catalogue
pub mod Fields
pub mod Lines
pub mod Names
pub mod Naturals
pub mod Shapes
