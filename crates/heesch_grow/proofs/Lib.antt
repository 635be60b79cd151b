pub mod Adding
pub mod Beside
pub mod Gathered
pub mod Generated
pub mod FreeChildren
pub mod OneCell
pub mod Small
