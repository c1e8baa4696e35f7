-- workings
pub mod Synths
pub mod Named
pub mod Steps
pub mod Blocks
pub mod Spans
