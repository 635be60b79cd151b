pub mod CatalogueTexts
pub mod EntryLists
pub mod GridLaws
pub mod ItemTexts
pub mod Readable
pub mod RoundTexts
