pub mod Constructs
pub mod Examples
pub mod Expressions
pub mod Patterns
pub mod Queries
pub mod Regexes
pub mod Words
