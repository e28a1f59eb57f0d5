-- Going back keeps the stores of runs that fail.
pub mod Retraced
pub mod NextValues
pub mod LastRound
pub mod FoundStores
pub mod FailingRuns
-- Paths of trees whose operations fit.
pub mod MadeLists
pub mod MadeMoves
pub mod FittingSegments
pub mod PathsMade
-- What the trees of programs must guarantee to going back.
pub mod Assertions
pub mod FirstPoints
-- The crates below
pub mod Crates
