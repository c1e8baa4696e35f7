pub mod Replies
pub mod Failing
pub mod Sending
pub mod Framed
pub mod Answering
pub mod Frames
pub mod Events
