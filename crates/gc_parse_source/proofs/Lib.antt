pub mod LinkLoops
pub mod Loops
pub mod NameNumbers
pub mod Prefixes
