pub mod Answering
pub mod ReportedOutcomes
-- The crates below
pub mod Crates
