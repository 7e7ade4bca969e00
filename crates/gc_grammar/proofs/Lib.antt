pub mod Chains
pub mod Spellings
