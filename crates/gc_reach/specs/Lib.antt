pub mod Exploring
pub mod Marking
pub mod Numbering
pub mod OnWalks
pub mod Passing
pub mod Reached
pub mod Turning
