-- workings
pub mod Holding
pub mod Ready
