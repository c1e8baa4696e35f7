pub mod Pairs
pub mod Place
