pub mod Propagation
pub mod Closed
pub mod Judged
