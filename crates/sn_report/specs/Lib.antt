-- what a reader believes
pub mod Costs
pub mod Mixing
pub mod Weights
pub mod Reports
pub mod Lines
-- workings
pub mod Certificates
pub mod Tracing
pub mod Visits
