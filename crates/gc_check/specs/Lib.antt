pub mod Listings
pub mod Replays
pub mod Verdicts
