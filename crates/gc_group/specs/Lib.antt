pub mod ElementKeys
pub mod Folds
pub mod Gathered
pub mod Groups
pub mod Ranks
