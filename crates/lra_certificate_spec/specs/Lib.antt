-- In the order in which they are to be read.
pub mod Certificates
pub mod CertificateText
pub mod Judged
pub mod Claims
pub mod Lines
pub mod NumberViews
-- The crates below
pub mod Crates
