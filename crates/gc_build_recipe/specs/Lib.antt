pub mod ExpressionCodes
pub mod Places
pub mod Recipes
