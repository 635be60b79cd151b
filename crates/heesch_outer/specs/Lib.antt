pub mod Coronas
pub mod Proofs
pub mod Answer
pub mod Found
pub mod Record
pub mod Statements
pub mod Outers
pub mod Answers
