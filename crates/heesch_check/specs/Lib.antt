pub mod Answers
pub mod Catalogues
pub mod Judging
pub mod Reading
pub mod Statements
