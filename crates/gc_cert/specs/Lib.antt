pub mod Acceptance
pub mod Potentials
pub mod Runs
pub mod Shortest
