pub mod Depths
pub mod Parses
pub mod TermParts
