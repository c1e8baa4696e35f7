-- workings
pub mod Quiet
pub mod Walks
