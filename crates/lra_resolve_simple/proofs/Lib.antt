-- Declarations and statements.
pub mod DeclarationLaws
pub mod StatementLaws
pub mod LabellingLaws
pub mod SimpleLaws
-- The crates below
pub mod Crates
