pub mod Chains
pub mod KleeneLaws
pub mod PathEnds
pub mod SameRows
