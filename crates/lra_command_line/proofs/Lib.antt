mod DefaultExamples
pub mod OptionLists
pub mod OptionRows
pub mod Conflicts
mod GivenWords
pub mod ParsedWords
pub mod Readings
pub mod TakenWords
pub mod SameWalk
pub mod SameFaults
pub mod OneCommand
