pub mod Answer
pub mod Assigned
pub mod Hints
pub mod Listed
pub mod Status
