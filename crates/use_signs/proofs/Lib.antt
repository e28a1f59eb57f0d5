pub mod SignLemmas
