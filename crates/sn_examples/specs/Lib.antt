pub mod Values
pub mod Sounding
pub mod Keeping
pub mod Texts
pub mod Commanding
