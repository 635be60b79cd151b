mod OneClasses
pub mod Canonical
mod Plain
mod Proofs
mod Listed
pub mod Bounded
mod Parts
mod Ends
mod Covers
pub mod Portions
mod Steps
mod UpTo
