-- workings
pub mod Setting
pub mod Refusing
pub mod Census
pub mod Samples
pub mod SampleCommands
pub mod Reading
pub mod Making
pub mod Fills
