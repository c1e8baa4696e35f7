-- what a reader believes
pub mod Entries
pub mod Boundary
pub mod Outputs
pub mod Running
pub mod Arriving
pub mod Refusing
pub mod Clashing
-- workings
pub mod Stacks
pub mod Answerable
pub mod Hearing
pub mod Histories
pub mod Keeping
pub mod Seeking
pub mod Holding
pub mod Remembered
pub mod Weighing
pub mod Planning
pub mod Playing
pub mod Spans
