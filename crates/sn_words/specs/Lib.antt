pub mod Choices
pub mod Converting
pub mod Drilling
pub mod Keys
pub mod Laws
pub mod Serving
pub mod Words
