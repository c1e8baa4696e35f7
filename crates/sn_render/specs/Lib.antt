-- what a reader believes
pub mod Play
pub mod Fronts
pub mod Faults
pub mod Outcomes
pub mod Playing
pub mod Statuses
-- workings
pub mod Stream
pub mod Gathering
pub mod Arriving
pub mod Going
pub mod Rows
pub mod Pieces
