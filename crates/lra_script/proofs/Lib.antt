-- Words of letters and digits, and the numbers that they write.
pub mod WordLemmas
-- A list of answers, one for each element, or none.
pub mod AllOf
-- Names among words.
pub mod Names
-- Words that are cut at semicolons.
pub mod Parts
-- Worked examples: what lines say.
mod FormExamples
-- The crates below
pub mod Crates
