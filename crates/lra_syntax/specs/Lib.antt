-- In the order in which they are to be read.
pub mod Lexeme
pub mod Tokens
pub mod Constants
pub mod Trees
pub mod Views
pub mod Texts
pub mod Grammar
pub mod Faults
pub mod Functions
pub mod Labels
pub mod Reach
pub mod Branches
-- The crates below
pub mod Crates
