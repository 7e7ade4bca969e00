pub mod Draws
pub mod MadeGraphs
