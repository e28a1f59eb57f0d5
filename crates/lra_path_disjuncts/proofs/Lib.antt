-- Operations lead where their actions lead.
pub mod SideSteps
pub mod OpLengths
pub mod StepLaws
pub mod WrittenSteps
-- Disjuncts, from tables of moves.
pub mod TableSteps
pub mod SideLists
pub mod GuardSteps
pub mod ChainSteps
pub mod LabelSteps
pub mod SegmentMoveSteps
-- The crates below
pub mod Crates
