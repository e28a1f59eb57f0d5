-- What the text of a verdict reports.
pub mod Outcomes
-- Worked examples.
pub mod ReportTextExamples
mod RefusalTextExamples
pub mod PartExamples
-- Of reports and their texts.
pub mod CanonicalLists
pub mod DeclaredNames
pub mod Every
pub mod Fronts
pub mod GeneratorTexts
pub mod Lists
pub mod LiveWords
pub mod NameTexts
pub mod NamesShown
pub mod Numbers
pub mod OneText
pub mod RowRanges
pub mod RowTexts
pub mod SitePaths
pub mod SourceTexts
mod HiddenNameExamples
mod SpelledExamples
pub mod StateTexts
pub mod TokenWords
-- What the report of a source lists.
mod ListingExamples
mod OtherReportExamples
-- The crates below
pub mod Crates
