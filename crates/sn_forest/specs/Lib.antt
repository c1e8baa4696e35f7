pub mod Trees
pub mod Stored
pub mod Links
pub mod Linked
pub mod Places
pub mod Walking
