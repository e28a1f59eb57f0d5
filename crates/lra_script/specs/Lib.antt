-- In the order in which they are to be read.
pub mod ScriptText
pub mod LineForms
pub mod Views
-- The crates below
pub mod Crates
