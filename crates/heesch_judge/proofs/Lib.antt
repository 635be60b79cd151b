pub mod Settled
pub mod Propagating
pub mod Ends
pub mod FirstEmpty
pub mod Inner
pub mod Judging
