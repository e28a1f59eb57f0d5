pub mod Lists
pub mod LabelLaws
-- Segments of trees in one list, from the leaves up.
pub mod FlatSteps
pub mod SegmentSteps
pub mod SegmentLists
pub mod ArmSteps
pub mod TaskSteps
-- The crates below
pub mod Crates
