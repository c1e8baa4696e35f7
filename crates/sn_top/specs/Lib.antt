-- what a reader believes
pub mod Connection
pub mod Converting
pub mod Drilling
pub mod Headline
pub mod Planning
pub mod Shelving
