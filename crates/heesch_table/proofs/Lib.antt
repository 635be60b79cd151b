pub mod Writing
pub mod Numbers
pub mod HeeschFacts
pub mod OneMore
pub mod HoleFacts
mod Answering
mod CellFaults
mod Cuts
mod EntryCounts
mod OneTally
pub mod OneTabulation
mod Shapes
mod Standing
