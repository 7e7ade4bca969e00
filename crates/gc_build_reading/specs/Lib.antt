pub mod Indexes
pub mod Items
pub mod Namings
pub mod Places
pub mod Recipes
pub mod ToldLists
pub mod Variables
