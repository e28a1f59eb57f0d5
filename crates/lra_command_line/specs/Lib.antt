pub mod CommandLine
pub mod ParsedCommand
pub mod Requests
