-- what a reader believes
pub mod UnitBlocks
pub mod Synths
pub mod Conditions
-- workings
pub mod Words
