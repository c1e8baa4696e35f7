pub mod Synths
pub mod Worlds
pub mod QuietSettles
pub mod Staying
pub mod QuietStages
