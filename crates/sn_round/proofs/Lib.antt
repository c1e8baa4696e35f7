pub mod Scripting
pub mod Orders
pub mod Inverses
pub mod Following
