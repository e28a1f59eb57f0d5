-- In the order in which they are to be read.
pub mod VerdictKinds
pub mod Parts
pub mod Report
pub mod ReportText
pub mod RefusalText
pub mod BackText
-- What reports of this crate show of these.
pub mod Rows
pub mod View
pub mod Spelled
-- Which points and verdicts the report of a source lists.
pub mod Listing
-- The crates below
pub mod Crates
