-- In the order in which they are to be read.
pub mod RefusalViews
pub mod PointViews
pub mod HeadViews
pub mod EdgeViews
pub mod SourceViews
-- The crates below
pub mod Crates
