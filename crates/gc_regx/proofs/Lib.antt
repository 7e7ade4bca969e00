pub mod PartTrees
pub mod PartsOfExpressions
