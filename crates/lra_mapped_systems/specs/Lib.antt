-- Lists of generators and constraints as images, preimages and changes of dimensions form them.
pub mod Forming
pub mod Moving
-- The crates below
pub mod Crates
