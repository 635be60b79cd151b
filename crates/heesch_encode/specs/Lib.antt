pub mod Families
pub mod Literals
pub mod Marks
pub mod Meeting
pub mod Owners
pub mod Plans
pub mod Rings
pub mod Taking
