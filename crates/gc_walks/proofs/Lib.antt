pub mod SearchableTrees
pub mod UsedSegments
