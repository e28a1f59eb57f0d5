-- Runs of bytes that pass a test, and the start of a line.
pub mod RunLemmas
pub mod LineLemmas
-- Which token a text spells, and which spelling is the longest.
pub mod MarkLemmas
pub mod LexemeLemmas
pub mod LiteralLemmas
pub mod AsciiLemmas
-- Gaps.
pub mod GapLemmas
-- The token at the start, and how far a source is read.
pub mod TokenLemmas
pub mod ReadingLemmas
-- A source has one reading, and it has one.
pub mod OneReadingLemmas
pub mod EachReading
-- Constants.
pub mod ConstantLemmas
