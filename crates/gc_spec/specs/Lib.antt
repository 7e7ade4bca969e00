pub mod Coherence
pub mod PropertyGraph
