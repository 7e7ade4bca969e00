pub mod NodeBlocks
pub mod PrintedPlans
