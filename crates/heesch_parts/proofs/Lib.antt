pub mod Building
pub mod EntrySteps
pub mod Feeding
pub mod Finishing
pub mod Going
pub mod Growing
pub mod NoFault
pub mod OneFault
pub mod OneJoin
pub mod PartWords
pub mod SameParts
pub mod Settling
pub mod Spans
pub mod Stepping
pub mod Taking
pub mod WholeShares
mod ShareTexts
mod JoinedTexts
pub mod Together
pub mod AllShares
