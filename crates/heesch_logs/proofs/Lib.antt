pub mod Equal
pub mod LogLines
pub mod Spelled
pub mod Refuted
pub mod Admitting
