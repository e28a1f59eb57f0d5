pub mod FirstMembers
pub mod Places
pub mod Generators
pub mod MembershipExamples
pub mod LinearRows
pub mod SameLists
pub mod Popped
-- The crates below
pub mod Crates
