-- How many labels the parts of a source have.
pub mod LabelCounts
-- The table of labels: lists of names, and the labels that have their numbers.
pub mod NameLists
pub mod FoundLabels
-- Worked examples: what the names of sources mean, and which sources are refused.
pub mod NameExamples
mod ArrayNameExamples
mod SwitchNameExamples
mod ShownNamesExamples
mod SourceRunExamples
mod WellFormedSourceExamples
pub mod SiteExamples
mod RefuseExamples
mod ThreadExamples
-- The crates below
pub mod Crates
