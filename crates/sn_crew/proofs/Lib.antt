pub mod Halves
pub mod Moves
pub mod Ending
