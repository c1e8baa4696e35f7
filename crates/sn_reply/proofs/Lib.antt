pub mod Sending
pub mod FrameLaws
pub mod Framed
pub mod Pieces
