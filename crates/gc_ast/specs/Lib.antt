pub mod PatternViews
pub mod QueryViews
pub mod Names
pub mod Trees
