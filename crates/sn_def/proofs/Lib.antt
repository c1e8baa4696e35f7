pub mod ElementNames
pub mod Naming
pub mod Drafting
pub mod InputLoop
pub mod DefaultsLoop
pub mod WireLoop
pub mod Fielding
pub mod Uniting
pub mod BodyLoop
pub mod Refusing
pub mod Placing
mod KindNames
mod Samples
mod Standing
pub mod Forming
pub mod Growing
pub mod RowLaws
pub mod Layouts
mod Counting
mod Distinct
mod Lines
mod Sound
mod Whole
mod Plain
mod Complete
mod Printed
mod Sets
mod PrintLoop
mod Prefix
mod Halting
pub mod Judging
mod Faulting
mod Unique
mod Telling
pub mod Frames
