-- What the check answers, and what multipliers show.
pub mod CheckSteps
pub mod CheckLoops
pub mod CheckAnswers
pub mod ShownRows
pub mod ListedKinds
-- The crates below
pub mod Crates
