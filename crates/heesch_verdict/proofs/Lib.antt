pub mod Nearby
pub mod PlainEnds
pub mod Firsts
pub mod Turned
pub mod Settling
pub mod Coronas
pub mod Entries
