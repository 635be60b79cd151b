pub mod Values
pub mod Hinted
pub mod Forms
pub mod Answering
pub mod Rarest
pub mod Chains
pub mod Containing
pub mod Chunked
