mod Digits
mod FieldLaws
mod LineAnswers
mod LinesRead
mod Literals
mod Numbers
mod Scans
mod Steps
mod WordLaws
mod WordLoop
pub mod FirstWords
pub mod LinesAgain
pub mod ListLaws
pub mod Newlines
pub mod OneList
