pub mod Spans
pub mod Bits
pub mod Windows
pub mod Marks
pub mod Floods
