pub mod LooseTrees
pub mod ReadingBack
pub mod RegexTexts
pub mod RegexTokens
pub mod WrittenTokens
