pub mod Answer
pub mod UpTo
pub mod Wall
pub mod Searching
pub mod Steps
