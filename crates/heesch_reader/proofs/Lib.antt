mod Bytes
pub mod Ending
mod Endings
pub mod EntryLines
pub mod EntryTexts
pub mod Finishing
pub mod FirstWords
pub mod Following
mod Giving
pub mod Inner
pub mod ItemLines
pub mod NoFault
mod PartNames
pub mod Pieces
pub mod SameLines
pub mod Settling
pub mod Walking
pub mod Whole
mod Joining
pub mod Reading
