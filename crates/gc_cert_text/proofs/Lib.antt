mod Depths
pub mod ExpressionTexts
pub mod Formed
mod FoundLaws
mod Fronts
mod GraphWalks
pub mod Items
mod Keys
pub mod LineFeeds
mod NestedTokens
mod ReadRanges
mod ReadWritable
mod Searches
mod SpelledNesting
mod ToldItems
mod WritableSegments
mod WrittenExact
mod WrittenExpressions
mod WrittenNumbers
mod WrittenSearches
mod WrittenShapes
mod WrittenTexts
