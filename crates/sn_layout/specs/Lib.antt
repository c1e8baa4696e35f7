-- workings
pub mod Layout
pub mod Leaving
pub mod Reading
