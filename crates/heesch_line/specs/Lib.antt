pub mod Forms
pub mod LineReading
pub mod Lists
pub mod Reading
pub mod Scanning
pub mod Stops
