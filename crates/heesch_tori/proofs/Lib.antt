pub mod Bits
pub mod Cells
pub mod Passed
pub mod Pairs
pub mod PairNumbers
pub mod Clauses
