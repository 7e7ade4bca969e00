pub mod Descents
pub mod ExpressionVariables
pub mod Fits
pub mod Occurrences
pub mod Rules
pub mod SameRows
