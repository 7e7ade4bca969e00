pub mod NestedLines
pub mod NestedQueries
pub mod Printed
pub mod QueryLines
