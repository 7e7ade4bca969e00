pub mod AssignedLaws
pub mod Chains
pub mod FaultLaws
pub mod GivenLaws
