pub mod Jobs
pub mod Inverting
pub mod Scripts
