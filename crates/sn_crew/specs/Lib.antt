pub mod Deques
pub mod Hands
pub mod Looks
pub mod Rounded
