-- In the order in which they are to be read: the options, what is taken of an analysis, the assertions of a report,
-- what the report shows, and what a source must get that is to be certified.
pub mod Settings
pub mod Extraction
pub mod Assertions
pub mod Certified
pub mod Refusals
-- The crates below
pub mod Crates
