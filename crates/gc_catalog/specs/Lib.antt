pub mod AddRefusals
pub mod NamedGraphs
