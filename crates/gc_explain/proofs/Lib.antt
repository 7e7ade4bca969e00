mod Chains
mod PartRows
pub mod Planned
mod Standing
mod StepsMean
mod Turns
mod WholeLaw
