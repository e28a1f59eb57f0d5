-- Worked examples: each definition of specs/ on texts whose answers are known.
-- Tests by which the examples find longest spellings, and the examples.
pub mod LongestByTest
pub mod Lexemes
pub mod LexedByTest
pub mod TokenExamples
mod ConstantExamples
-- Trees, and what they stand for.
mod ViewExamples
pub mod TreeSamples
-- Trees, their tokens and levels.
mod GrammarExamples
pub mod FirstTokens
