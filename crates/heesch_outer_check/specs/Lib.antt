pub mod Records
pub mod Answers
pub mod Rounds
pub mod Statements
pub mod Lines
pub mod ReadableRecords
pub mod RecordStatements
