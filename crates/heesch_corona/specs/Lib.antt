pub mod Tiles
pub mod Searches
pub mod Building
pub mod Rules
pub mod Answer
pub mod Statements
