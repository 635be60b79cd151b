pub mod Near
pub mod Admitted
pub mod Spelling
