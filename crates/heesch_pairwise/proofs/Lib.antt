pub mod LaterLists
pub mod Merging
pub mod PairLists
pub mod SourceMade
