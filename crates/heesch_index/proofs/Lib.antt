pub mod NumberFacts
mod BoxFacts
mod MarkFacts
mod PartFacts
mod EntryFacts
