-- What rows over symbols stand for.
pub mod WalkedRows
pub mod WalkedWidths
-- What a certificate that meets its program says is kept, and holds in all runs.
pub mod CertificatesKept
pub mod CertificatesHold
-- Lines and their numbers.
pub mod LineSteps
pub mod NumberSteps
pub mod NumberText
pub mod RowLines
-- What is read has the text of a certificate, and what is written is read again.
pub mod ReadText
pub mod ReadPaths
pub mod SourceRows
pub mod ReadCertificate
pub mod WriteText
pub mod WritePoints
pub mod WritePaths
pub mod WriteCertificate
pub mod JudgedBothWays
-- A text is that of one certificate.
pub mod OneText
pub mod OneProgram
pub mod OneCertificate
-- Worked examples.
mod CertificateExamples
-- The crates below
pub mod Crates
