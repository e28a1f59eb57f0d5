pub mod Domains
pub mod OptionRows
