pub mod Definitions
pub mod Line
pub mod Stream
pub mod Valid
