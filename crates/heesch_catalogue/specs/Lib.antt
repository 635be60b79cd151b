pub mod Catalogues
pub mod Entries
pub mod Rounds
