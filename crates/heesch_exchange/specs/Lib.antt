pub mod Answers
pub mod Formulas
pub mod Shapes
pub mod Statements
pub mod ClauseTexts
pub mod Lines
pub mod Models
pub mod Stops
