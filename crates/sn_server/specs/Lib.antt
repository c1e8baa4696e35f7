-- what a reader believes
pub mod PlayEvents
pub mod Served
pub mod Statuses
-- workings
pub mod Serving
