-- Statements with statements in them.
pub mod LoopLaws
pub mod ItemLaws
pub mod CaseLaws
-- Functions and the whole.
pub mod FunctionLaws
pub mod OneFunction
-- Threads.
pub mod ThreadLaws
-- The crates below
pub mod Crates
