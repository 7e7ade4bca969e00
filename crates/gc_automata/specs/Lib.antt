pub mod Automata
pub mod Building
pub mod Conformance
pub mod Machines
pub mod Moves
pub mod Runs
