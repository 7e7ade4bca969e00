pub mod Aggregates
pub mod Alike
pub mod Assigned
pub mod Described
pub mod Faults
pub mod Givens
pub mod Said
pub mod Standing
