pub mod ListLemmas
pub mod FitLemmas
pub mod AbsorbLemmas
pub mod InterferenceLemmas
pub mod FallLemmas
pub mod TakenLemmas
pub mod RoundLemmas
pub mod FlagLemmas
-- Worked examples: the intervals, round by round.
mod RoundExamples
-- The crates below
pub mod Crates
