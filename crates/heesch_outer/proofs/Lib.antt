mod AnswerLines
mod OuterLists
mod OuterReadable
pub mod Entries
pub mod OuterAnswers
pub mod OuterLayers
pub mod OuterNumbers
pub mod OuterRight
pub mod OuterSound
pub mod OuterTexts
