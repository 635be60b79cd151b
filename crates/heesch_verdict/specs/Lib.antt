pub mod Shapes
pub mod Earliest
pub mod Tilings
pub mod Domains
pub mod Ends
pub mod Alike
pub mod Judged
