pub mod Databases
pub mod Expressions
