pub mod Allowed
pub mod Opening
pub mod Pcm
pub mod Sound
