mod Passing
mod Points
mod Resting
mod Sweeping
mod Turning
pub mod Unseen
pub mod Products
pub mod Rolling
