pub mod Fronts
pub mod LinkLemmas
