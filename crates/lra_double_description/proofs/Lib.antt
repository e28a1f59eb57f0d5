-- The lemmas, from bottom to top.
pub mod PairLists
pub mod Filling
pub mod RowProducts
pub mod Flattening
pub mod Cuts
pub mod Thirds
pub mod PairsBelow
-- The crates below
pub mod Crates
