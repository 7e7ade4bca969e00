pub mod ConstructViews
pub mod Formulas
