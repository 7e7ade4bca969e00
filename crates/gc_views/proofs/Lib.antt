pub mod ChainWalks
pub mod EdgeSteps
pub mod FirstBad
pub mod GraphSegments
pub mod Legs
pub mod Orders
pub mod Renamed
