mod AllPathsSearched
mod BasicsMade
mod BlocksFound
mod BlockNumbers
mod BuiltFiles
mod BuiltRests
mod CostLaws
mod DistinctVariables
mod EvaluationLaws
mod ExplainedViews
mod FoundSearched
mod FreeWords
mod Heads
mod InOrderLaws
mod OneOutcome
mod OneView
mod Outcomes
mod PastRows
mod PathHeads
mod PlainViews
mod PlanRuns
mod QueriesWhole
mod SearchedAtoms
mod Standings
mod StepLaws
mod TablesMade
mod UsesLaws
mod ViewsMade
pub mod AllOf
pub mod BasicLinks
pub mod BuiltParts
pub mod HiddenLaws
pub mod Joining
pub mod MakeLinks
pub mod MakeSites
pub mod MakeSorts
pub mod MatchLinks
pub mod MatchParts
pub mod MatchPlaces
pub mod MatchReads
pub mod MatchSorts
pub mod OccurrenceLaws
pub mod OneGraph
pub mod OnlyPatterns
pub mod Origins
pub mod PlainParts
pub mod QueryParts
pub mod WalkEntries
pub mod WalkPlaces
