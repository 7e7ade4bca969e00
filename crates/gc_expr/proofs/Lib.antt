pub mod Lists
pub mod Renaming
