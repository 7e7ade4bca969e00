mod ByToken
mod ElementTurns
mod EntryTurns
pub mod FileAgrees
mod Framing
mod Fuel
mod Gathered
mod GatheredProperties
pub mod GatheredSteps
mod GraphsLoadBack
pub mod GraphsReadBack
mod Growing
mod Keys
mod ListTurns
mod LoadedAgain
mod ManyItems
mod Members
pub mod PartsLoadBack
mod OnePass
mod Passing
pub mod ReadsBack
pub mod Rest
mod Search
mod SetsByTurns
mod SortedSets
mod TokenTurns
pub mod Turns
pub mod Utf8Texts
pub mod WalkTurns
mod Wholes
pub mod WordTexts
