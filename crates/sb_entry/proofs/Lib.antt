pub mod Loop
pub mod MessageLaws
pub mod DefinitionLaws
pub mod EntryLaws
pub mod WholeLaws
pub mod PartLengths
pub mod Sized
pub mod FitsLaws
