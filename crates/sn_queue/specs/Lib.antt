pub mod Time
pub mod Waiting
pub mod Steps
pub mod Meaning
