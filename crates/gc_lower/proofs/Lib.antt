pub mod Counts
pub mod Dealings
pub mod NextAtoms
pub mod NextBlocks
pub mod Numbers
pub mod Renamings
pub mod Renumberings
pub mod TreeParts
