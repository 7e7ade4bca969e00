pub mod PropertyLaws
pub mod Search
pub mod SetLaws
pub mod WordLaws
