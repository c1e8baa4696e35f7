pub mod Sending
pub mod Reading
pub mod Few
pub mod Acted
pub mod Rooted
pub mod Settled
pub mod Events
