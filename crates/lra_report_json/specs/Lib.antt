-- In the order in which they are to be read.
pub mod ReportJson
pub mod OneJson
-- The crates below
pub mod Crates
