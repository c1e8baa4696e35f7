pub mod Hands
pub mod Mixing
pub mod Ready
