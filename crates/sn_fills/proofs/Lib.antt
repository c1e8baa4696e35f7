pub mod Alike
mod Lying
mod Overlaying
mod Putting
mod Within
