pub mod Asking
pub mod BoundWalks
pub mod Found
pub mod Patterns
pub mod Readings
pub mod Searches
pub mod SegmentOrder
