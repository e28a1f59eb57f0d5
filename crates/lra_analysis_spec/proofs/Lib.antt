-- A derivation without a flag is the written iteration, and the first flag stands where the written iteration exceeds a limit.
pub mod FlagLaws
pub mod Transfer
pub mod Unflagged
-- Forms and tests mean what their expressions and comparisons do.
pub mod FormLemmas
pub mod DivisionLemmas
pub mod CondKeeping
pub mod Keeping
-- The values of a derivation have all stores of the runs.
pub mod Covers
pub mod Keeps
pub mod Sound
-- What is judged to fit doesn't stop a run by a number.
pub mod FitsSound
-- What is judged to be inside doesn't stray.
pub mod AccessesSound
-- The values of a derivation have no more parts than the options say.
pub mod Caps
-- Single definitions on small operands.
mod PieceExamples
mod LinearExamples
mod MovesExamples
mod DivisionExamples
mod ThresholdExamples
mod FitsExamples
mod AccessesExamples
-- What moves do after others.
pub mod Takes
-- Moves say what lists of actions and conditions said apart.
mod MovesAgree
pub mod OneTree
pub mod OneIteration
-- The same values report one thing of what is judged: of any, of what fits, of accesses.
pub mod OneJudging
pub mod OneJudgement
pub mod OneAccess
-- The crates below
pub mod Crates
