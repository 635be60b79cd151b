pub mod Later
pub mod Rows
pub mod Shared
pub mod TorusView
