pub mod Results
pub mod Sources
pub mod Turns
