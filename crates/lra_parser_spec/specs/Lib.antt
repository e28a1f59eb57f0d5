pub mod Tests
pub mod Reading
pub mod Expressions
pub mod Statements
pub mod Files
