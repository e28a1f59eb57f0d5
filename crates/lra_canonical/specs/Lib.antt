-- What is made of rows so that each set has one spelling, and when a number passes the range in it.
pub mod Reduced
pub mod Echelons
pub mod Irredundant
pub mod Ordered
-- Rows with truth values that go with them.
pub mod MarkedRows
-- The crates below
pub mod Crates
