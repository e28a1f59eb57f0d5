-- The lemmas, from bottom to top.
pub mod SeveralKinds
pub mod Parted
pub mod Validity
pub mod KnownLists
pub mod TightLemmas
-- The crates below
pub mod Crates
