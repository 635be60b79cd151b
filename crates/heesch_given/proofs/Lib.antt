mod Going
pub mod OneFault
pub mod Reading
pub mod ShapeFaults
mod Texts
