-- workings
pub mod Telling
pub mod Looking
pub mod Acting
pub mod Eventful
