pub mod States
pub mod Steps
pub mod Rule
pub mod Fits
pub mod History
pub mod Calls
