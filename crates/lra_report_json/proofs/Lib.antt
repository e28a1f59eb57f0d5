pub mod Floats
pub mod JsonPieces
pub mod Members
pub mod Keyed
pub mod OneJson
mod ReportJsonExamples
