pub mod Adds
pub mod Collects
pub mod First
pub mod Generator
pub mod Parents
