pub mod PatternViews
pub mod RegexViews
