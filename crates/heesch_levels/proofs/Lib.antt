pub mod StepFacts
pub mod SearchFacts
pub mod Inside
pub mod LayerLists
pub mod UpToFacts
pub mod LevelFacts
