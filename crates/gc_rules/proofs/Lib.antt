pub mod Descending
mod ExpressionLists
pub mod FittingRows
pub mod JoinRules
pub mod Listed
mod Numbers
mod OccurringViews
mod Roots
pub mod RuleLaws
pub mod TreeRows
