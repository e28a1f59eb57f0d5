-- Lists of truth values, the words that hold them, and matrices.
pub mod TruthValues
pub mod Words
pub mod Matrix
pub mod Transposed
