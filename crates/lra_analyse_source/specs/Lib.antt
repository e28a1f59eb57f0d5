pub mod AnalysisReport
pub mod Soundness
pub mod SourceReports
pub mod Claims
pub mod Stages
-- The crates below
pub mod Crates
