pub mod Fixpoint
pub mod Inner
pub mod Readings
pub mod Seen
pub mod State
pub mod Watches
