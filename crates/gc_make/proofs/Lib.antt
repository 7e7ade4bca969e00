pub mod Numbered
pub mod Stages
