pub mod Hearing
pub mod Pace
