pub mod Renamed
pub mod ToldLaws
