pub mod ItemTrees
pub mod NameLemmas
