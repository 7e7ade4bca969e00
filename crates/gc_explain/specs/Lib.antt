pub mod ExplainedPlans
pub mod ExplainedTrees
pub mod ExplainedWords
pub mod Needs
pub mod PlanLines
pub mod WholePlans
