-- What a recipe makes: systems, rows of generators, polyhedra.
pub mod MakingLemmas
-- The texts of polyhedra.
pub mod ShownLemmas
-- Inclusions and greatest values have one answer each.
pub mod OneAnswer
-- What a session answers: membership of a point, names.
pub mod SessionLemmas
-- Scripts that are too long, and others.
pub mod Limit
-- What is answered of widenings.
pub mod WidenLemmas
-- From one fact about an answer to another.
pub mod Endings
-- What refuses a script by its lines alone; one end of each script if nothing is flagged.
pub mod OneRefusal
pub mod OneEnd
-- Worked examples: whole scripts whose answers are known.
mod ScriptExamples
-- The crates below
pub mod Crates
