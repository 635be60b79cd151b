pub mod Conflict
pub mod FlatLemmas
pub mod Lists
pub mod Refuted
pub mod Reading
pub mod Rising
pub mod Sizes
