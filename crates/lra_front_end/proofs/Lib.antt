-- Variables and calls without faults; what a tree means is good if nothing of it is at fault.
pub mod Faultless
pub mod Declared
pub mod Good
-- Labels in text order.
pub mod Numbered
-- At each point as many names as variables.
pub mod Named
-- Whole programs.
pub mod Whole
-- Literals of tokens, of trees, and of a source's tree.
pub mod Spelled
-- Arrays that are named.
pub mod KnownArrays
-- Worked examples.
mod LiteralExamples
mod KnownExamples
pub mod RefuseExamples
pub mod OneAnswer
pub mod EachAnswer
pub mod ReadSteps
pub mod StageSteps
pub mod SomeAnswer
-- Limits of one thread after another, and what the stages of the reading answer.
pub mod Limits
pub mod ThreadSteps
mod ThreadsRefuseExamples
-- The crates below
pub mod Crates
