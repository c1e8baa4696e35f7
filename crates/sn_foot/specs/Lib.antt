-- what a reader believes
pub mod Mixers
pub mod Canonical
pub mod Footprints
pub mod Uses
-- workings
pub mod Reaches
pub mod Putting
pub mod Judging
pub mod Suffices
