pub mod Words
pub mod Lines
pub mod Score
pub mod Fields
pub mod Reached
pub mod Faults
pub mod Answers
