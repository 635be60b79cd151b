mod Digits
pub mod Forms
mod InRange
mod OptionRows
pub mod Ranges
mod Settings
