mod Cutting
mod Judged
mod NearAnswers
pub mod OneAnswer
mod AnswerBehind
mod Places
mod Rows
pub mod Written
pub mod Answers
pub mod Decimals
pub mod Fronts
pub mod ProofLines
pub mod Records
pub mod Words
