-- In the order in which they are to be read: what a source, a sample, a script and a certificate must get, a source
-- that is to be certified, one that is gone back over, and one of several threads, a row for each command, what a call
-- of `run` is given and leaves, what it does with words and input, what it claims of a report, all that it promises.
pub mod SourceAnswer
pub mod SampleAnswer
pub mod ScriptAnswer
pub mod CertificateAnswer
pub mod CertifyAnswer
pub mod BackAnswer
pub mod ThreadsAnswer
pub mod Commands
pub mod World
pub mod Run
pub mod OutputClaims
pub mod Promises
pub mod Prepared
-- The crates below
pub mod Crates
