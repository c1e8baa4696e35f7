pub mod Values
pub mod Reading
pub mod Voices
pub mod Rows
pub mod Settings
pub mod Runs
pub mod KeptFlags
pub mod Messages
