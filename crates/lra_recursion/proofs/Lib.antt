-- Lists and their elements.
mod Elements
-- How a search goes on, and what it has found at its end.
mod Visiting
-- Functions by their names and places, and calls by those of their callers.
mod Placing
-- The calls of a source are read from its labels.
mod Reading
-- A call is added to the row of its caller.
mod Adding
-- What is reached by places is what functions reach, and the first call that comes back.
mod Reaching
-- Each source has a first recursive call, or none.
pub mod Deciding
-- The crates below
pub mod Crates
