pub mod FirstLines
pub mod NoFault
pub mod OneFault
pub mod OneModelFault
pub mod ShapeLines
pub mod Told
pub mod Bytes
mod Groups
mod Literals
mod Naming
mod Progress
mod Splits
mod Untrue
mod Walk
mod WordLists
