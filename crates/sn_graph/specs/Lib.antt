-- what a reader believes
pub mod Voices
pub mod Rows
pub mod Plans
pub mod Sharing
pub mod Lanes
pub mod Stages
-- workings
pub mod Fitting
pub mod Inputs
pub mod Disjoint
pub mod Drafts
pub mod Pieces
pub mod Clear
