pub mod Steps
pub mod Owing
pub mod Paying
pub mod Arming
pub mod Repainting
pub mod Standing
pub mod Working
