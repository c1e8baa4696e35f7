-- what a reader believes
pub mod Clashing
-- workings
pub mod Marking
pub mod Passing
pub mod Rows
