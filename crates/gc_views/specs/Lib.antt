pub mod Namings
pub mod Segments
pub mod Views
