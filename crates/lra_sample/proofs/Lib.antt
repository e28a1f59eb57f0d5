pub mod Blocks
pub mod Lengths
pub mod SummaryLemmas
mod SampleExamples
mod SummaryExamples
-- Sources written lexeme by lexeme; the lines of a sample source and the whole, their tokens and their trees.
pub mod Numerals
pub mod Lines
pub mod LineTokens
pub mod Whole
-- Nothing refuses them.
pub mod Faultless
pub mod Within
pub mod Samples
-- The crates below
pub mod Crates
